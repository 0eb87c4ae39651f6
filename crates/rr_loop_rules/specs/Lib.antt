pub mod Rules
pub mod View
