pub mod Tables
pub mod Assigned
pub mod Doubles
pub mod Marks
