pub mod Back
pub mod First
pub mod Heads
pub mod Loops
pub mod Made
mod SameKinds
pub mod Sentences
