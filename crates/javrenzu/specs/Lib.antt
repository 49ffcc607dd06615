pub mod Room
pub mod Command
