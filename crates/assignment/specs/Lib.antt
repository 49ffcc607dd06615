pub mod Assignments
pub mod Definitions
