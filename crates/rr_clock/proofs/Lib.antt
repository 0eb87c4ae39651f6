pub mod BareNodes
pub mod Leading
pub mod Spreading
pub mod Clocking
pub mod UseLaw
pub mod Naming
pub mod Finding
