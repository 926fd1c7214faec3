pub mod Usage
pub mod Runs
