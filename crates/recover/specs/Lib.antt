pub mod Numbers
pub mod Reaching
