pub mod Counting
pub mod Writes
pub mod Told
