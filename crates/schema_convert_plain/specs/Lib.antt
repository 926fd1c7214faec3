pub mod Gathered
pub mod Plain
pub mod Translation
