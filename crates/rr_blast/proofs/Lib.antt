pub mod PlacedLaws
pub mod BaseLaws
pub mod CycleLaws
pub mod FitLaws
pub mod FewBits
pub mod StayLaws
