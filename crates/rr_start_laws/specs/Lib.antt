pub mod Starting
pub mod Laws
