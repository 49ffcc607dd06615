pub mod Starts
pub mod Tokens
pub mod Call
