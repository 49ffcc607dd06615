pub mod ElementRules
pub mod LineRules
pub mod CallRules
pub mod SizeRules
pub mod SizeLaws
