pub mod Recorded
pub mod Acknowledged
pub mod Sessions
