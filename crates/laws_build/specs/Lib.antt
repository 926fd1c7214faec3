pub mod Closure
pub mod Said
pub mod Orders
pub mod Generated
pub mod Existence
