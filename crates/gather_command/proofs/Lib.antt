pub mod Decided
mod Journaling
mod Outcomes
mod Saying
