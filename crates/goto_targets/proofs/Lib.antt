pub mod SeekLaws
pub mod SeekRules
pub mod HeaderRules
