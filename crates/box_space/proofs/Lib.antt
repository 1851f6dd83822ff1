pub mod TermLists
pub mod Segments
pub mod Writing
pub mod Roots
pub mod ViewSteps
pub mod Halving
pub mod Scaled
