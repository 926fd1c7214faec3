mod Deep
mod Depths
mod Done
mod Layers
pub mod Linked
pub mod Made
mod Once
mod Ranked
mod Walked
mod Used
