pub mod Loops
pub mod Maps
pub mod Rendered
pub mod ForLoops
pub mod Sources
pub mod PassLoop
pub mod Numbers
