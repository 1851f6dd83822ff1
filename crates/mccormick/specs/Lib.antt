pub mod Views
pub mod Coefs
