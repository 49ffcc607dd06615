pub mod Buckets
pub mod Gotos
