pub mod Unlimited
pub mod Bytes
pub mod Widths
pub mod Found
