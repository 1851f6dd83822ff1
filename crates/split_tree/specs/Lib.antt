pub mod Splits
pub mod Spans
pub mod Cuts
pub mod Faults
