pub mod OneOldShape
pub mod OneOldFragment
pub mod OneConversion
pub mod OneOldReading
