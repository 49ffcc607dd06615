pub mod RowRules
mod Taken
pub mod Room
pub mod Accepted
