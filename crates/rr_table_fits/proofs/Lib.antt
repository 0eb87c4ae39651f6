pub mod TopPorts
pub mod Cells
pub mod Fitting
pub mod Sampling
pub mod Standing
