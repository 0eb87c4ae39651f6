pub mod Groups
pub mod Searched
