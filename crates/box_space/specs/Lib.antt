pub mod Lines
pub mod Blocks
pub mod Tables
pub mod Written
pub mod Forms
pub mod Variables
pub mod Views
