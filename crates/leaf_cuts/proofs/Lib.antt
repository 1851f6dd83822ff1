pub mod RootEnds
pub mod Giving
pub mod FormCoords
pub mod Middles
pub mod HalfProofs
pub mod LeastSolved
