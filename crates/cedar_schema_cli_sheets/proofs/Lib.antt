mod Shown
pub mod Getting
mod NoLines
mod Outcomes
