pub mod Choosing
pub mod Wild
