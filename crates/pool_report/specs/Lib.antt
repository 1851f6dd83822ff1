pub mod Names
pub mod Amounts
pub mod Lines
pub mod Report
