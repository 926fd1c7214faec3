pub mod Escapes
pub mod Forms
pub mod Laid
pub mod Quotes
pub mod Scans
pub mod Steps
pub mod TokenLists
pub mod Values
