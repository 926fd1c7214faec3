pub mod Complete
pub mod Finite
