pub mod Numbers
pub mod MemNumbers
