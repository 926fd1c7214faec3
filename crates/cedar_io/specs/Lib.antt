pub mod Outside
pub mod Input
