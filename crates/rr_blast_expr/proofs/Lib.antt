pub mod Bounds
pub mod Faultless
pub mod Worths
