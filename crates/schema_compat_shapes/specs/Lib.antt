pub mod OldTypes
pub mod OldWalk
pub mod OldParts
