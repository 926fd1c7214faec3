pub mod Marks
pub mod Marked
pub mod Tracing
pub mod Walk
pub mod Spaces
pub mod Alike
pub mod Opened
pub mod Placed
