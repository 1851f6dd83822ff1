pub mod Counts
pub mod Open
pub mod Kept
pub mod Views
pub mod EntryFaults
pub mod Taken
