pub mod Statements
pub mod Table
