pub mod Pieces
pub mod Names
pub mod Lines
pub mod Programs
pub mod Outcomes
pub mod Written
