-- Lemmas behind the contracts.
pub mod Agreed
