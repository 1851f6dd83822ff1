pub mod Refusals
pub mod Trees
pub mod Judging
pub mod Runs
pub mod Grammar
pub mod Parts
pub mod Lines
