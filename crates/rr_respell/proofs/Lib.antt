pub mod Makes
pub mod TreeMakes
pub mod SourceParts
pub mod Calm
pub mod SourceCalm
pub mod PrintedTree
pub mod KeptBytes
