pub mod Values
pub mod Parameters
pub mod Declarations
pub mod Heads
pub mod View
pub mod Sound
