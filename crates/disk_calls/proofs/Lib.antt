pub mod Calling
pub mod Moments
pub mod Ranges
