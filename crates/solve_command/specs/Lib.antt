pub mod Gaps
pub mod Journaled
pub mod Recorded
pub mod Resumed
pub mod Solution
pub mod SolveEnds
