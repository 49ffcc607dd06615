pub mod Dot
pub mod Held
pub mod Example
