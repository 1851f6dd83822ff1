pub mod Disks
pub mod Calls
