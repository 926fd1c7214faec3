pub mod Names
pub mod Primitives
pub mod Types
