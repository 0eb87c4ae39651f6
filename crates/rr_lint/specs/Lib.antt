pub mod Edited
pub mod Walks
