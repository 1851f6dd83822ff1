pub mod Views
pub mod Given
pub mod Benches
pub mod Halvings
pub mod Leaves
