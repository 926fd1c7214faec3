pub mod ErrorPlaces
pub mod ErrorTexts
pub mod WarningTexts
