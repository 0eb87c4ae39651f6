pub mod Spread
pub mod Adjoining
pub mod Rising
pub mod Placed
pub mod Walks
mod Prints
