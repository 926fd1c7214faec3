mod Apart
pub mod FirstRepeat
pub mod Gathered
mod Grouped
pub mod OneName
pub mod Own
mod Ranked
mod Seen
