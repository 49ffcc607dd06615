pub mod LineRules
