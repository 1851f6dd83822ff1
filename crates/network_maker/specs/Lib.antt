pub mod Generated
pub mod Rows
