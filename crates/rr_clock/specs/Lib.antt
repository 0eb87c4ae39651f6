pub mod Clock
pub mod Spread
pub mod Found
pub mod Places
pub mod View
