pub mod Decided
mod Journaling
mod Outcomes
mod Resuming
mod Solutions
