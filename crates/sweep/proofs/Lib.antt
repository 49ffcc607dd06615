pub mod Worklist
pub mod Numbering
pub mod Sets
pub mod Counting
