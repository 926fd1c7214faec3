pub mod Among
pub mod Declared
