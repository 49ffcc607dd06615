pub mod Conditions
pub mod Opened
