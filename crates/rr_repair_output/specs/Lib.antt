pub mod Texts
pub mod Certified
