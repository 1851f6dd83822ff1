pub mod Worked
pub mod Answered
