pub mod Points
pub mod Places
pub mod ByLine
pub mod StartRules
pub mod WriteRules
pub mod CallRules
