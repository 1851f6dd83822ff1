pub mod EmptyProofs
pub mod PieceEnds
pub mod Closings
pub mod Cutting
pub mod Trying
