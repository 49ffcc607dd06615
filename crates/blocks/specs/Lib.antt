pub mod Entries
pub mod Structure
pub mod Stack
