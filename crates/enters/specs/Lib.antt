pub mod Inside
pub mod Marks
