pub mod Denied
pub mod ClockOnce
pub mod AnyWalk
pub mod WritesOnce
pub mod OneFault
