pub mod Sitting
pub mod Handing
