pub mod Once
pub mod Alike
pub mod Told
