pub mod Lists
pub mod Noting
pub mod Latching
pub mod KeptWords
pub mod Once
pub mod EverOfNodes
pub mod Waiting
