pub mod Edits
pub mod Lifted
pub mod View
