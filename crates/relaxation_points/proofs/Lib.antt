-- Lemmas behind the proofs.
pub mod Duality
pub mod Written
pub mod Comparing
pub mod Adding
pub mod Judged
