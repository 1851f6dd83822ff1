pub mod Pieces
pub mod ItemPieces
pub mod ItemLaws
pub mod Lasts
