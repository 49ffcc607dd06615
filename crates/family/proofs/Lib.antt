pub mod Places
pub mod Digits
pub mod FamilyNames
