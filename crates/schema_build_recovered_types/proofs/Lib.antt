pub mod Lacking
pub mod Rows
mod Several
pub mod Variants
