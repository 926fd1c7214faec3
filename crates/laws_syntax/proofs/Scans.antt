pub mod Blanks
pub mod FirstFault
pub mod Scanned
pub mod Tokens
