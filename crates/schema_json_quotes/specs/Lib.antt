pub mod Adds
pub mod Escapes
