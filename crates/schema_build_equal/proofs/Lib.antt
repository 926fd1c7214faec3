mod Choices
mod Keys
mod Layers
mod OneSet
