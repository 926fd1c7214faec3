pub mod ActionKinds
pub mod Kinds
pub mod NoRecord
