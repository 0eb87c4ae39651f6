pub mod Labels
pub mod Aims
pub mod Kinds
pub mod Races
pub mod View
