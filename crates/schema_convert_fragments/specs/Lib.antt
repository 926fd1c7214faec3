pub mod Declarations
pub mod Fragments
pub mod Room
