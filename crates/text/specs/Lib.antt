pub mod CodePoint
pub mod Zeroed
