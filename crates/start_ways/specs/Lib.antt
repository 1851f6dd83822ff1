pub mod Ways
pub mod Weights
pub mod Cheapest
