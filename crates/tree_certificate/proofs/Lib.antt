-- Lemmas behind the contracts.
pub mod Lines
pub mod Found
