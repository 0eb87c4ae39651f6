pub mod Telling
pub mod Causes
pub mod Reading
pub mod Once
pub mod FileOnce
pub mod Bounds
pub mod OwnFiles
pub mod FileRuns
mod Placing
