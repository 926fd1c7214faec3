pub mod Submissions
pub mod Replies
pub mod Plans
