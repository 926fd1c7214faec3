pub mod Ancestors
pub mod DeclaredEntries
pub mod Entries
pub mod Themselves
