pub mod Least
pub mod Answers
pub mod Replies
