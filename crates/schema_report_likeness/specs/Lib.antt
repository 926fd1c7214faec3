pub mod Likeness
