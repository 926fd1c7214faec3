pub mod CedarDecls
pub mod CedarFragments
pub mod CedarProper
pub mod CedarSayable
pub mod CedarTypes
pub mod Folds
