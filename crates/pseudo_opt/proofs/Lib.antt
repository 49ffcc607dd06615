pub mod Rules
pub mod Passes
pub mod Named
pub mod Symbols
pub mod Callees
