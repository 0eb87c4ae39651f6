pub mod Tests
pub mod Truth
pub mod Laws
pub mod Relation
