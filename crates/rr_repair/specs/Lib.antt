pub mod Repairs
pub mod Views
