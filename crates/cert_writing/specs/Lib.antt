pub mod Cert
pub mod Views
pub mod Text
