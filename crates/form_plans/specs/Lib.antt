pub mod Divisors
pub mod Parts
pub mod Made
pub mod Slices
pub mod Faults
pub mod Taken
