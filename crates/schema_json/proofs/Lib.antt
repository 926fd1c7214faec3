pub mod Depths
mod Erased
pub mod Layers
pub mod Namespaces
pub mod Orders
pub mod Same
pub mod Walks
