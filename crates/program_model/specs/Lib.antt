pub mod Points
pub mod Programs
pub mod Lifted
pub mod Rows
pub mod LeastBases
pub mod Plans
pub mod Bounds
