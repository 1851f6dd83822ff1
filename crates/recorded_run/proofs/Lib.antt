pub mod Recording
pub mod Turning
pub mod Splitting
pub mod Acknowledging
pub mod Causes
