mod Actions
mod Builtins
pub mod Sets
mod Types
