pub mod Tables
pub mod Walk
pub mod View
pub mod Kept
pub mod Laws
