pub mod Bare
pub mod Parts
pub mod Visits
pub mod Walk
