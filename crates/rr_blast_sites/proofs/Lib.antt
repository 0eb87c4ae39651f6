pub mod SignalLaws
pub mod GrowthLaws
pub mod FindLaws
pub mod GuardLaws
pub mod SiteLaws
