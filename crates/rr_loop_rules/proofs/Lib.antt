pub mod Entering
pub mod Folds
pub mod HeadNodes
pub mod LoopsOfItems
pub mod LoopsOfNodes
pub mod Sets
pub mod StatementNodes
pub mod StrayNodes
