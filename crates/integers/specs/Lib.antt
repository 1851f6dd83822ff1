pub mod Sums
pub mod Divisors
pub mod Numbers
