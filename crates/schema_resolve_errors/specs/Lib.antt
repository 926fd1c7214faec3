pub mod ErrorTexts
pub mod Gathered
