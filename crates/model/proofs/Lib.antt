pub mod Ands
pub mod Decode
pub mod Formed
pub mod Access
