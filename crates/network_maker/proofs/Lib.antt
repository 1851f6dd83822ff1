pub mod Steps
pub mod Tests
pub mod Numbers
pub mod Faultless
