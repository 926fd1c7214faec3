pub mod Contents
pub mod Inserted
mod Nested
mod Paired
