-- Lemmas behind the contracts.
pub mod Working
pub mod Answering
pub mod OnLeaves
