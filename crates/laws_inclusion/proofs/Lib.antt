pub mod Settling
pub mod Valued
mod Refused
