pub mod Halving
pub mod Signs
pub mod Laws
pub mod Results
pub mod Cancelling
pub mod Adding
