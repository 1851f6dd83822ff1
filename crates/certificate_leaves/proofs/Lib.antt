-- Lemmas behind the contracts.
pub mod Listed
pub mod Least
pub mod Held
pub mod Taken
pub mod Walked
