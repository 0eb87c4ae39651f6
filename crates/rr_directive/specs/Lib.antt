pub mod Bytes
pub mod Pieces
pub mod Expand
pub mod Places
pub mod View
pub mod Laws
