pub mod Analysis
pub mod Workspaces
pub mod OpenInputs
