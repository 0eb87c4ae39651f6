pub mod Walks
pub mod Covering
pub mod PartsOfNodes
pub mod NamesOfNodes
pub mod NamesOfParts
