pub mod Walk
pub mod Taken
pub mod Seen
pub mod WriteRules
