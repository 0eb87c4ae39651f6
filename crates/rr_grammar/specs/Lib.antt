pub mod Connections
pub mod Declarations
pub mod Formats
pub mod ItemForms
pub mod Leaves
pub mod ModuleForms
pub mod Parts
pub mod Trees
