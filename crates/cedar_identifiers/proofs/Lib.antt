pub mod Ids
mod Blanks
mod Components
mod Cut
pub mod Joins
pub mod Normal
pub mod Ordered
mod Pieces
mod Reading
pub mod Unique
pub mod Same
