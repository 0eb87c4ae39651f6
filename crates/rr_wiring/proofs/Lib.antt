pub mod Widths
pub mod Bits
pub mod Walking
pub mod Nodes
