pub mod OldObjects
pub mod OldWords
