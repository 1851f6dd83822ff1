pub mod Settled
pub mod Journals
pub mod Found
