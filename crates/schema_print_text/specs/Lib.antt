pub mod Adds
pub mod Growing
pub mod PrintedTypes
