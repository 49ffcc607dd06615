pub mod Seek
pub mod Conditions
