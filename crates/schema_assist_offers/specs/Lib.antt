pub mod Offers
pub mod Spellings
pub mod Homes
