pub mod Decided
mod Reported
pub mod Streamed
