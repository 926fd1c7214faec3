pub mod Plans
pub mod Replacing
pub mod Formats
pub mod Formatting
pub mod Stopping
