pub mod Words
pub mod Merging
pub mod Steps
pub mod PassRoom
