-- Lemmas behind the answers.
pub mod Halves
mod Raised
mod Held
