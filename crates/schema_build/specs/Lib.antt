pub mod Assembly
pub mod FaultsTold
pub mod Meaning
pub mod OldJson
pub mod PartsFault
pub mod Schemas
pub mod TextErrorTexts
pub mod Texts
