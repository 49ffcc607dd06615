pub mod Runs
pub mod Lines
pub mod Pieces
pub mod Kept
