pub mod Decided
pub mod JobFiles
mod Keeping
mod WorkDone
