pub mod Searches
pub mod Engines
pub mod Outcomes
