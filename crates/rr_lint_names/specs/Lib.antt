pub mod Faults
pub mod Latched
pub mod Edges
