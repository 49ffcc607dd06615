pub mod Bools
pub mod Parts
pub mod Texts
pub mod Loops
pub mod Fills
pub mod CodePoints
