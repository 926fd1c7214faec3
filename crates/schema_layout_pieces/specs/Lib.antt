pub mod Kept
pub mod Kinds
pub mod LaidOut
pub mod Layout
pub mod Pieces
pub mod Writing
