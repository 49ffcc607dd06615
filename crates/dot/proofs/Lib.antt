mod Runs
mod LabelRules
mod WebRules
mod EdgeRules
mod NodeRules
mod WidthRules
mod Pictures
pub mod Colours
