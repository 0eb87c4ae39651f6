pub mod ShapeLaws
pub mod RanLaws
pub mod ArmLaws
