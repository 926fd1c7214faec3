pub mod Alike
pub mod Reordered
pub mod Texts
