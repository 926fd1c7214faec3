pub mod Readings
pub mod SiteTokens
