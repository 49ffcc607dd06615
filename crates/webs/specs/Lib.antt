pub mod Progress
pub mod Steps
