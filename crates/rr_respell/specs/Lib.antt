pub mod Pieces
pub mod Printing
pub mod Stretches
pub mod Laws
