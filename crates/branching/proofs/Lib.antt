pub mod Greatest
pub mod Narrower
pub mod Pushed
