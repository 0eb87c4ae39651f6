pub mod Unfold
pub mod View
pub mod Laws
