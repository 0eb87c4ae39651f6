pub mod Signals
pub mod Instances
pub mod Finding
