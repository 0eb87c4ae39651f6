pub mod Narrow
pub mod Members
pub mod Tops
pub mod Once
pub mod Declared
pub mod Scalars
pub mod Vectors
