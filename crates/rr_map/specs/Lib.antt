pub mod Moves
pub mod Printed
pub mod Read
