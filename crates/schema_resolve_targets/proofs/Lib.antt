pub mod Candidates
pub mod Gathering
