pub mod Appends
pub mod StringRules
pub mod Sums
pub mod ValueRules
