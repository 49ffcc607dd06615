pub mod Buckets
pub mod Leads
