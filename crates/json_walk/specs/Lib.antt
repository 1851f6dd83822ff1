pub mod Walk
pub mod NetCause
