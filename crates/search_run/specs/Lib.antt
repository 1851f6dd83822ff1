pub mod Orders
pub mod Steps
pub mod Runs
pub mod Found
pub mod Left
pub mod Due
