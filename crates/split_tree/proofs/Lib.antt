-- Lemmas behind the contracts.
pub mod Innermost
pub mod Spans
pub mod Finding
pub mod Pushed
