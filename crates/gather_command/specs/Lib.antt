pub mod Told
pub mod Answers
pub mod Journaled
pub mod GatherEnds
pub mod Brought
