pub mod Asking
pub mod Written
pub mod Budget
pub mod Demand
