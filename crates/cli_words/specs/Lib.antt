pub use Rattle.command_items.specs.Items
pub use Rattle.command_items.specs.Lines
pub use Rattle.command_items.specs.Commands
pub mod Asks
pub mod Requests
pub mod Views
