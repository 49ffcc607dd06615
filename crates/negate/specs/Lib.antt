pub mod Tests
pub mod Comparisons
