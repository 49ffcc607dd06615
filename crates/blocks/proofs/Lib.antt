pub mod Links
pub mod Stacks
pub mod Reading
