pub mod Joined
pub mod Repeats
