pub mod Answer
pub mod Exact
pub mod Fronts
pub mod Lists
pub mod Loops
pub mod Made
pub mod Reading
