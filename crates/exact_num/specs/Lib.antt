pub mod Fraction
pub mod Signed
pub mod Views
