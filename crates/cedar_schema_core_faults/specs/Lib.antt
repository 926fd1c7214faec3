pub mod RecoverTexts
pub mod Told
