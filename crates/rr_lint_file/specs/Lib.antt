pub mod Files
pub mod Clean
pub mod View
