pub mod Words
pub mod GuardedPieces
