pub mod Mends
pub mod Names
pub mod Fits
pub mod MendedTree
pub mod KeptBytes
pub mod NewsPut
pub mod Nothing
