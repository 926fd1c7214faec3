pub mod BareTypes
mod Declared
pub mod Entered
mod Firsts
pub mod Fragments
pub mod Grouped
mod Lawful
pub mod Maps
mod MeantProper
pub mod MeantSayable
mod MeantWritten
mod Openings
pub mod Orders
mod Proper
mod Same
mod SameFragments
mod Sayable
mod Types
