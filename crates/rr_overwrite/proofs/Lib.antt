pub mod Declared
pub mod FirstTargets
pub mod Listed
