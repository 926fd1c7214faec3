pub mod DeclarationFaults
pub mod BuildFaults
pub mod Parts
