pub mod Views
pub mod Held
pub mod Written
