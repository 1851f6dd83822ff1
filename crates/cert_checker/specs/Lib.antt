pub mod Answers
pub mod Claims
pub mod Parts
pub mod Streams
