pub mod Leasts
pub mod Names
mod Stops
