pub mod Points
pub mod Multipliers
pub mod Parts
