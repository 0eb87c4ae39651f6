pub mod Derive
pub mod Marks
pub mod Fresh
pub mod Lrat
pub mod Reading
