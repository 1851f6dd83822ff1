-- Lemmas behind the contracts and the laws.
pub mod Lists
pub mod Grown
pub mod Reordered
pub mod SameBounds
pub mod Taking
pub mod Deliveries
pub mod Judgements
pub mod DeskBounds
pub mod Handing
pub mod Cutting
