pub mod Reading
pub mod Syntax
pub mod Turns
