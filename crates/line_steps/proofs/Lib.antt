pub mod Tests
pub mod Drawings
pub mod Falls
pub mod Edges
