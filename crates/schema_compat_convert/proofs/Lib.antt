pub mod Layers
pub mod Ahead
pub mod Kept
mod Typed
