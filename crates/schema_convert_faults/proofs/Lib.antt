pub mod Among
mod Below
mod Borrowed
pub mod Lawful
mod Sorted
mod Taken
pub mod Valued
pub mod Warnings
