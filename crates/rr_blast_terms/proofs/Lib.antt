pub mod ChoiceLaws
pub mod CaseLaws
pub mod NodeLaws
pub mod WildLaws
