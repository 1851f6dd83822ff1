pub mod Certified
pub mod CheckTightEnds
pub mod Lines
pub mod Marked
pub mod Ranges
pub mod TextEnds
pub mod TightEnds
