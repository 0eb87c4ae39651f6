pub mod Overwrites
pub mod Variables
