pub mod Declares
pub mod Pieces
pub mod Said
