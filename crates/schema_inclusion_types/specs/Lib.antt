pub mod Least
pub mod Kinds
pub mod Ids
pub mod Entries
pub mod LostAttributes
