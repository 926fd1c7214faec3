pub mod Paths
mod Marked
mod Steps
mod Rising
mod Found
pub mod Rows
mod Groups
mod States
mod Turns
mod Closed
mod Ends
mod Closures
mod Fronts
mod Least
mod Own
mod Wanted
