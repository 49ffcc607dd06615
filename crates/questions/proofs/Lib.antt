pub mod Ascii
pub mod Asked
pub mod Refusing
