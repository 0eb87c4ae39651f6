pub mod Clauses
pub mod Codes
pub mod Partial
pub mod Dimacs
