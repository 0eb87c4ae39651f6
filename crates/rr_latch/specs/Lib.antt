pub mod Immediate
pub mod Unassigned
pub mod Paths
pub mod Notes
pub mod Rooms
