pub mod Pieces
pub mod Stretches
pub mod Laws
