pub mod Walk
pub mod Waiting
pub mod WalkSteps
