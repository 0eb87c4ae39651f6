pub mod Members
pub mod Targets
pub mod Short
pub mod Ordered
pub mod Modules
pub mod Rising
pub mod Spelled
