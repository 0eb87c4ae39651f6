pub mod Ever
pub mod Mended
pub mod Clean
pub mod Laws
