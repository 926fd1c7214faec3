pub mod Assistance
pub mod Words
pub mod Lines
pub mod Plans
pub mod Runs
