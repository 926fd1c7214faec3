pub mod ExpectedText
pub mod FaultHelps
pub mod FaultLabels
pub mod FaultTexts
pub mod SameFaults
