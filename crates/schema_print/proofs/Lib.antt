pub mod EitherWay
pub mod Grouped
mod Printables
pub mod Rows
pub mod Spelled
pub mod Tested
pub mod Wanted
