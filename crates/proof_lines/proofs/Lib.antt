-- Lemmas behind the judge of proof lines.
pub mod Lines
pub mod Raising
pub mod Outcomes
pub mod Running
pub mod Coming
pub mod States
pub mod Going
pub mod Parting
pub mod Placing
pub mod Judged
pub mod Bounding
