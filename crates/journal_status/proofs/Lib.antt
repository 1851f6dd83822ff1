pub mod Attaching
pub mod Causes
pub mod Faults
