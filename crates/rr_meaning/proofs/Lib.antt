pub mod Scoping
pub mod Written
pub mod Marks
pub mod Rows
pub mod Placing
pub mod Walking
pub mod Tabled
