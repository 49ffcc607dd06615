pub mod LineTexts
pub mod CutTexts
pub mod CutRuns
