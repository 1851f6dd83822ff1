-- Lemmas on points of written plans.
pub mod WrittenQ
pub mod WrittenP
pub mod SamePoints
pub mod Lists
