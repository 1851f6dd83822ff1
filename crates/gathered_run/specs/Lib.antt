pub mod Files
pub mod Events
pub mod Gatherings
pub mod Steps
pub mod Causes
