pub mod Lengths
pub mod Ratios
