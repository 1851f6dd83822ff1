-- Lemmas behind the contracts.
pub mod FormRows
pub mod Written
pub mod Rounded
pub mod Scaled
pub mod Advised
pub mod PriceInOrder
pub mod NamedRows
pub mod Leading
pub mod Priced
