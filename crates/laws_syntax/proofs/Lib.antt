pub mod OneTree
pub mod Sites
pub mod Scans
