-- Lemmas behind the answers.
mod Naming
mod Fitting
mod TooCoarse
pub mod Ends
pub mod MarksSame
pub mod Least
mod Lists
mod Said
mod Following
mod Boxed
mod Judged
mod Refusing
mod Checked
mod NodesNamed
