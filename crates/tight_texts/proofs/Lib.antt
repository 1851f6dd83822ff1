-- Lemmas behind the laws.
pub mod MarkLaws
mod Choices
mod Fractions
mod Lowest
mod Pieces
mod Taking
mod Wholes
