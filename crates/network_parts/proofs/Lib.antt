pub mod Mapped
pub mod Lookups
pub mod Joined
