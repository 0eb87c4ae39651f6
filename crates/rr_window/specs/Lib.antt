pub mod Replies
pub mod Windows
