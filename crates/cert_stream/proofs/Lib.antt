pub mod Places
pub mod Calls
mod FirstBytes
pub mod Steps
pub mod NextItem
pub mod Runs
