pub mod Fitting
pub mod Faults
