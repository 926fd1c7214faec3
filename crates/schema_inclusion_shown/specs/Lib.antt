pub mod Grown
pub mod Members
pub mod ValueTexts
