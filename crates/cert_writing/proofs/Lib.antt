-- Lemmas on lines and lists of texts.
pub mod Pieces
