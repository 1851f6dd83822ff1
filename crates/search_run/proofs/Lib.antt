pub mod Proofs
pub mod Growing
mod Rooting
mod Sound
pub mod Covering
mod Reaching
pub mod Choosing
pub mod Stepping
mod Nearer
pub mod Ending
mod Targets
mod Owing
mod Squeezing
mod Settling
mod Raising
