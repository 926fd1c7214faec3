pub mod Entries
mod Paths
pub mod Apart
mod Rounds
mod Unreserved
pub mod BuiltinNames
pub mod Found
pub mod Quiet
mod TypeParts
pub mod Known
mod Meanings
pub mod Targets
mod UndefinedNames
mod BuiltinParts
mod UsedTypes
mod CycleNames
mod LentScope
