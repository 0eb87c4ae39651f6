pub mod Tops
pub mod Values
pub mod Moments
pub mod Scopes
pub mod Sampled
pub mod Faults
pub mod Fits
pub mod View
