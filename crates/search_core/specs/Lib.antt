pub mod Searches
pub mod Cases
pub mod Next
