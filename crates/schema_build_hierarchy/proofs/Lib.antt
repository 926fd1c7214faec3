pub mod ActionTypes
mod Paths
pub mod Ranked
pub mod Once
pub mod Above
pub mod Ordered
mod Rising
mod FirstCandidate
mod EntityTargets
mod Unreserved
mod Gathering
pub mod Exact
pub mod ParentRanks
pub mod UsesFree
mod Cycles
pub mod Gathered
mod EnumAbove
pub mod ParentsDeclared
pub mod KnownByMembers
