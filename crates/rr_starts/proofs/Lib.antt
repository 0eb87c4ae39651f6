pub mod Numbers
pub mod Nodes
pub mod Shaped
pub mod Named
