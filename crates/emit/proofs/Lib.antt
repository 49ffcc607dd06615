pub mod Planned
pub mod Conditions
