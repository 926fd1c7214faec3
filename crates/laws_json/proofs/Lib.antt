pub mod Current
pub mod Deprecated
pub mod Back
