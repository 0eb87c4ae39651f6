pub mod Transitions
pub mod Cycles
pub mod Placed
