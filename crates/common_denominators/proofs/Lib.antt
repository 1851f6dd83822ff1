-- Lemmas behind the proofs.
pub mod Least
pub mod Lists
