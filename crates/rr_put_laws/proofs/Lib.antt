pub mod Calm
pub mod Texts
pub mod Over
pub mod Put
