pub mod CedarForm
pub mod Textual
