pub mod Anywhere
pub mod Names
pub mod Candidates
pub mod Guards
