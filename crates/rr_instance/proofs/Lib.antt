pub mod Beginnings
pub mod Overwrites
pub mod Arms
pub mod Snocs
pub mod StatementArms
