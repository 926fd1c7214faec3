pub mod Followed
pub mod Layers
mod Presence
