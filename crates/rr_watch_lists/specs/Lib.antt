pub mod WatchLists
pub mod Lists
pub mod Spans
pub mod Numbers
pub mod Holdings
