pub mod Merged
pub mod Named
pub mod WordRules
pub mod HeadLines
pub mod ForPlans
pub mod ForRules
