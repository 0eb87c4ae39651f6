pub mod Shifts
pub mod Orders
