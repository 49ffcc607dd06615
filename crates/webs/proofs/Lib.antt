pub mod Progress
pub mod Marked
pub mod Family
pub mod Next
pub mod StepRules
pub mod Totals
pub mod Whole
