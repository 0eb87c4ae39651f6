pub mod Carried
pub mod Gates
