pub mod Borrowed
pub mod Faults
pub mod Members
pub mod NamesIn
pub mod Shadowings
pub mod Translatable
pub mod Warned
