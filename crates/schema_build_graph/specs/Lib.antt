pub mod Paths
pub mod Graph
pub mod Marks
pub mod Order
pub mod Needed
pub mod Search
