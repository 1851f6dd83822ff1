pub mod Runs
pub mod Births
pub mod Appends
pub mod Openings
pub mod Spelled
