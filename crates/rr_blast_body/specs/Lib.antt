pub mod Lasts
pub mod Overwrites
