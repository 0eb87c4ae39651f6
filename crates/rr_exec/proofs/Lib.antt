pub mod Pieces
pub mod Nodes
pub mod Widths
pub mod Labels
pub mod Fitting
pub mod Loops
