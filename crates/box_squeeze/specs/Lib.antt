pub mod Pieces
pub mod Squeezes
