pub mod WordLaws
pub mod RunLaws
pub mod GuardedPieceLaws
pub mod NameLaws
pub mod WordPieces
