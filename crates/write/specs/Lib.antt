pub mod State
pub mod Holds
