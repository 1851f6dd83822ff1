pub mod Messages
pub mod Reads
pub mod Took
pub mod Unreads
