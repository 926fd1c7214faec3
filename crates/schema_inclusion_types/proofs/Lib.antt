pub mod Ties
mod LeastNames
mod Looked
mod Onto
mod Found
mod Layers
