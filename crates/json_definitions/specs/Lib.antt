pub mod Parser
pub mod Strings
pub mod Reader
pub mod Writer
pub mod Listings
pub mod JsonCalls
pub mod Rows
