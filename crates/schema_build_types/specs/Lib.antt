pub mod Content
pub mod Standing
pub mod Lacks
pub mod Nesting
