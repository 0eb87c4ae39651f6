pub mod Chain
pub mod Answering
pub mod Proposals
pub mod Tasks
