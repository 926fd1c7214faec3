pub mod Chains
pub mod CharLemmas
pub mod FeedLemmas
pub mod FrontLemmas
pub mod JsonLemmas
pub mod LineLemmas
mod MarkLemmas
