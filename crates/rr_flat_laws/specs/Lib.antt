pub mod Declared
pub mod Names
pub mod Drivers
pub mod Blocks
pub mod Rules
pub mod Hierarchy
pub mod Laws
