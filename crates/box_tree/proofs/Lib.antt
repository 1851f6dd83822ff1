-- Lemmas behind the contracts.
pub mod Ends
pub mod Counting
pub mod Indexing
pub mod Started
pub mod Scans
pub mod Rooting
pub mod Refusals
pub mod Improving
pub mod Growing
