pub mod Gathered
pub mod Meanings
pub mod Qualified
pub mod ReferenceParts
pub mod Targets
pub mod Tried
pub mod Undefined
pub mod Untargeted
