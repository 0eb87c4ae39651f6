pub mod Sorting
pub mod Searching
