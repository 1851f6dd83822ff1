pub mod ThreeTerms
pub mod BlockRows
