mod Leading
mod Maxima
pub mod Choosing
