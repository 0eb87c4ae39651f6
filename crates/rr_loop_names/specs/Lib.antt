pub mod Turns
pub mod View
pub mod Laws
