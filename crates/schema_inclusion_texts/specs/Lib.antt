pub mod Builds
pub mod Inclusions
