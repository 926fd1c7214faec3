pub mod ExactSites
pub mod KeywordReadings
pub mod OneReading
pub mod ReadParts
pub mod ReadingForms
