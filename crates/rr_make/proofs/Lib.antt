pub mod Once
mod Summing
