pub mod Trails
pub mod Tables
