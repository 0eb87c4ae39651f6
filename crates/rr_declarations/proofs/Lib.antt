pub mod Steps
pub mod Firsts
pub mod Listings
pub mod JoinedSignals
pub mod HeadLemmas
