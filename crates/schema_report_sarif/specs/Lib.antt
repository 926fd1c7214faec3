pub mod Sarif
pub mod Uris
