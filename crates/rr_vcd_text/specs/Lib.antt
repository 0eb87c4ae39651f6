pub mod Words
pub mod Numbers
pub mod Dump
pub mod Breaks
pub mod Rooms
pub mod Steps
pub mod View
