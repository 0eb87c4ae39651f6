pub mod Outside
pub mod Reads
pub mod Delivery
pub mod Views
