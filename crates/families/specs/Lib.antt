pub mod Families
pub mod Tokens
