pub mod WordRules
pub mod Lists
pub mod Lines
pub mod ForPlans
pub mod ForRules
pub mod Unwrapped
pub mod TurnRules
pub mod Passing
