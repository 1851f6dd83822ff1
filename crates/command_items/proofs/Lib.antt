mod Arguments
pub mod Entering
mod ItemLemmas
mod Levels
mod Lists
mod Readings
pub mod Tables
mod Walks
