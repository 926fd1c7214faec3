mod Besides
mod Bytes
pub mod Declared
pub mod Grouped
pub mod InOrder
pub mod Layers
mod Meant
pub mod Named
mod Opened
pub mod Parts
mod Plain
pub mod Rowed
mod Strings
mod Uncaptured
mod Walked
