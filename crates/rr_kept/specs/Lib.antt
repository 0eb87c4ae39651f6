pub mod Bodies
pub mod Kept
pub mod Laws
pub mod Read
