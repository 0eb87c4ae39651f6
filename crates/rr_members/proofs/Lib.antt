pub mod Playing
pub mod Worked
pub mod Numbering
pub mod Rounding
pub mod Searching
pub mod Freely
