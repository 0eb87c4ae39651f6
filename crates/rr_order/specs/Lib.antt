pub mod Nodes
pub mod Loops
