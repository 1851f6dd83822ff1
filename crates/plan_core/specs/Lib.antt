pub mod Shown
pub mod Checks
pub mod Weighed
