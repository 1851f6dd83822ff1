pub mod Commands
pub mod Items
pub mod Lines
pub mod Views
