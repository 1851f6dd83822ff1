-- Lemmas behind the contracts.
mod Bare
mod Free
