mod Boxed
mod Certificates
mod CheckDone
mod ComesSame
pub mod Decided
mod Lengths
mod MarkDone
mod MarkedLeaves
mod ShortText
mod Within
