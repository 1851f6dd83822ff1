pub mod Points
pub mod Lines
pub mod Views
