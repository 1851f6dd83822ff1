-- Lemmas on texts and on rounding.
pub mod Each
pub mod Floors
pub mod Lengths
