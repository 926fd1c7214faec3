pub mod Same
pub mod Replies
