pub mod Numbers
pub mod Telling
pub mod Given
pub mod Once
