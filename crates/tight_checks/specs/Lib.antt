pub mod Holding
pub mod Refusals
pub mod Showing
pub mod Judging
