pub mod Pieces
pub mod Leading
pub mod Counting
pub mod Initial
