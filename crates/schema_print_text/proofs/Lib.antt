pub mod Bytes
pub mod Layers
pub mod Laying
