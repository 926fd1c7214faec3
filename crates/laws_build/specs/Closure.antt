pub mod Ordered
pub mod Kinds
pub mod Known
pub mod Closed
pub mod WellFormed
pub mod Formed
pub mod HalfFilled
pub mod Chosen
