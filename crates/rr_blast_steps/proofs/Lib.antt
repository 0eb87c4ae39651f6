pub mod BitLaws
pub mod SideLaws
pub mod PartLaws
pub mod DesignLaws
pub mod StepLaws
pub mod CopyLaws
