-- Lemmas on texts.
pub mod TermTexts
pub mod RootText
pub mod RowText
