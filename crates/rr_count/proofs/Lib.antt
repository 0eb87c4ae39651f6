pub mod Adders
pub mod Counters
