pub mod Sites
pub mod Choices
pub mod Places
pub mod View
pub mod Codes
