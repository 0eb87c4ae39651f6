pub mod Answer
pub mod Chains
pub mod Exact
pub mod Trees
