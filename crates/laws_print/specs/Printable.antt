pub mod Orderly
pub mod ReadAs
