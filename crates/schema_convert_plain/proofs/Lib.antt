mod Counted
mod ItemByItem
mod PlainJoined
mod PlainNames
pub mod PlainTree
mod Readings
mod Rest
