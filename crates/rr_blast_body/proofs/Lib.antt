pub mod LastLaws
pub mod OverwriteLaws
