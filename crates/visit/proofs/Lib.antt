pub mod ListFacts
pub mod LayoutLaws
pub mod StepLaws
