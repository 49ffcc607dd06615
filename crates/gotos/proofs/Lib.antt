pub mod HeaderLines
pub mod EdgeRules
pub mod BodyRules
pub mod HeadedRules
