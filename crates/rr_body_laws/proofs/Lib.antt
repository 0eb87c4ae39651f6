pub mod Heads
pub mod Tables
pub mod Blocks
pub mod Walks
pub mod Enters
pub mod Whole
