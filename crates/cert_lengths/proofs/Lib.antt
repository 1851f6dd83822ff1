-- Lemmas behind the laws.
pub mod Lines
pub mod Texts
pub mod ValidTexts
