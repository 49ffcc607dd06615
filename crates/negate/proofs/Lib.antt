pub mod TestTokens
pub mod Scanning
pub mod Places
pub mod Negations
pub mod Appends
