pub mod Kinds
pub mod Listings
pub mod Places
