-- Lemmas on the flows and qualities of plans.
pub mod Rooms
