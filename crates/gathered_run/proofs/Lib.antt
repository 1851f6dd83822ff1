pub mod Prefixes
pub mod Delivered
pub mod Growth
pub mod Taking
pub mod Stopping
pub mod Openings
