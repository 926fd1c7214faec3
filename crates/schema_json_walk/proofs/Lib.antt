pub mod ByParts
pub mod Layers
mod Placed
pub mod Visiting
