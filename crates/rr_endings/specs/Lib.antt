pub mod Refusals
pub mod Texts
pub mod Found
pub mod Endings
pub mod Views
