pub mod Bounds
pub mod Refusals
