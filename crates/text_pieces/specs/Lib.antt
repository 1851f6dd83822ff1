pub mod Rounding
pub mod Decimals
pub mod Pieces
