pub mod Raw
pub mod Parts
pub mod Told
pub mod Ordered
pub mod Below
pub mod Rows
pub mod Subjects
