pub mod Changes
pub mod Walks
pub mod Laws
pub mod Edits
