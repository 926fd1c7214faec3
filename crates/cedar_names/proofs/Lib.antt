mod Ahead
pub mod Cost
pub mod Defined
mod Faults
mod Found
mod Halved
mod Members
mod Risen
