pub mod Marks
pub mod Once
pub mod Mending
pub mod Kept
pub mod Fixed
