pub mod Operations
pub mod Programs
pub mod States
pub mod Steps
pub mod Written
pub mod Runs
