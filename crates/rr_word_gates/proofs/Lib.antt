pub mod Carrying
pub mod WordLaws
pub mod SelectLaws
pub mod Copying
pub mod MemoryLaws
