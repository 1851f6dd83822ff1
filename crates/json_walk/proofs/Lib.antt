pub mod Lists
pub mod Each
pub mod Found
pub mod Given
