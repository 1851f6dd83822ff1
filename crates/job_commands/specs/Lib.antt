pub mod Handed
pub mod JobsEnds
pub mod Kept
pub mod Ranges
pub mod WorkEnds
