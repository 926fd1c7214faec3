pub mod Rows
pub mod Least
pub mod DeclaredAt
pub mod DeclaredTwice
pub mod Refusing
pub mod FirstRefused
pub mod WalkFaults
