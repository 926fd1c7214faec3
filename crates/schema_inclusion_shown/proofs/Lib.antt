mod Growing
mod Layers
mod Rowed
