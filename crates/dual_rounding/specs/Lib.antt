pub mod Programs
pub mod Price
pub mod Tried
pub mod Answers
pub mod Rooms
pub mod Leads
