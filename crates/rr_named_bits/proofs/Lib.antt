pub mod Runs
pub mod Reaching
pub mod Places
pub mod Nodes
pub mod Growing
pub mod Naming
pub mod Writing
pub mod Sides
