pub mod Formed
pub mod Columns
pub mod Decoded
pub mod Calls
