pub mod Linking
pub mod Ranks
pub mod RepresentativeRules
pub mod Renaming
pub mod SetRules
pub mod LinkReads
pub mod FamilyNumbers
