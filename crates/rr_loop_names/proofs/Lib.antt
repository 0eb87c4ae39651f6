pub mod Entered
pub mod Keeping
pub mod KeepingTargets
pub mod Meanings
pub mod PutNodes
pub mod Staying
