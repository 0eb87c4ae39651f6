pub mod Answer
pub mod Exact
pub mod Loops
pub mod Reading
