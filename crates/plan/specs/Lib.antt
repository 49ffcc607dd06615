pub mod Plan
pub mod Changes
pub mod Source
pub mod ForLoop
pub mod Planned
pub mod Headers
