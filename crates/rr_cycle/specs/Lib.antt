pub mod Exec
pub mod Cycles
pub mod Performing
pub mod Designs
pub mod Laws
