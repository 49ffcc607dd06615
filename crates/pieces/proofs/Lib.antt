pub mod Forms
pub mod Backs
pub mod LeadingTests
pub mod CountingRules
pub mod InitialRules
