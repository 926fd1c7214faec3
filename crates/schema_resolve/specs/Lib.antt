pub mod Designated
pub mod Faults
pub mod FirstCandidate
pub mod MeaningLaws
pub mod References
pub mod Renamed
pub mod Renamings
pub mod Resolved
