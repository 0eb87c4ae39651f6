pub mod Ports
pub mod Reruns
pub mod Checking
