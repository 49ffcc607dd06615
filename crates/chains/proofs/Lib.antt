pub mod NextPlace
pub mod Places
pub mod FamilyPlaces
pub mod TokenRules
