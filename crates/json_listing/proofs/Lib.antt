pub mod LoopRules
pub mod EndRules
