pub mod Before
pub mod Refusals
pub mod Cuts
pub mod Namespaces
