pub mod Checks
pub mod Joins
pub mod Whole
