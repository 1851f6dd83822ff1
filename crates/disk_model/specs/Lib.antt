pub mod Steps
pub mod Images
pub mod MemDisks
pub mod WildDisks
pub mod MemCalls
