pub mod Reruns
pub mod Checks
