pub mod PlainPlan
pub mod PoolSums
pub mod Repairs
pub mod Choices
