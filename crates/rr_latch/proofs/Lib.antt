pub mod Logs
pub mod Scanning
pub mod Knowing
pub mod Noting
pub mod Putting
pub mod Counting
pub mod Labels
pub mod Branching
pub mod Keeping
pub mod BlocksInTurn
mod Forgetting
