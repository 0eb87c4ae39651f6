pub mod WordLaws
pub mod PlacedLaws
pub mod Example
