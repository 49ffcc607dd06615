pub mod Lists
pub mod Finding
pub mod Hashes
pub mod Numbered
pub mod TokenWords
