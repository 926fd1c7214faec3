pub mod Sheets
pub mod Says
