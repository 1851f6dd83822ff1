pub mod Admitting
mod Commands
mod Decided
mod Gaps
mod Trials
mod Words
