pub mod Trees
pub mod ImmediateArms
