pub use Rattle.cert_items.specs.Items
pub mod Rooms
pub mod Streams
