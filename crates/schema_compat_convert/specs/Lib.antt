pub mod Demands
pub mod Converted
