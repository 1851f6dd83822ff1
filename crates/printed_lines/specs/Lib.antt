pub mod Trial
pub mod Verdicts
