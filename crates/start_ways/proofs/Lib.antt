pub mod Firsts
pub mod Least
pub mod Ways
