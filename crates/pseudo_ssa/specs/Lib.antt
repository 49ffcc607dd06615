pub mod Asked
pub mod Within
pub mod Answers
