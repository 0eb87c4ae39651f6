pub mod Constants
pub mod Stepping
pub mod Heads
pub mod Flats
