pub mod Steps
pub mod Items
pub mod Settings
pub mod Beginning
