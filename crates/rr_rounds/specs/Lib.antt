pub mod States
pub mod Joined
pub mod Rounds
