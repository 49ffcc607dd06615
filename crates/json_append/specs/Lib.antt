pub mod Appended
pub mod Sizes
