pub mod Sides
pub mod Assigning
pub mod Defining
