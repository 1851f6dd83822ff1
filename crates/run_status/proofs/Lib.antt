pub mod Networks
pub mod Parts
pub mod Quiet
