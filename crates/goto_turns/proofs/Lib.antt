pub mod Addresses
pub mod Bodies
pub mod Headers
pub mod LoopRules
pub mod TurnRules
pub mod Passing
