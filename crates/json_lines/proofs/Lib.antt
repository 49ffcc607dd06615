pub mod MemberRules
pub mod TokenRules
pub mod LineRules
