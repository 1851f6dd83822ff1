-- Lemmas behind the proofs.
pub mod Ranges
pub mod OnePivot
