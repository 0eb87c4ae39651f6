pub mod Questions
pub mod Walking
pub mod Fixed
pub mod Faithful
pub mod Matches
