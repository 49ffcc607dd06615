pub mod Cut
pub mod CallRules
