pub mod Units
pub mod Views
pub mod Handed
pub mod Desks
pub mod Judging
pub mod Deliveries
pub mod Leaves
