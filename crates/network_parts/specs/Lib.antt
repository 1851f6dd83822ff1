pub mod Parts
pub mod Views
pub mod Nodes
pub mod Faults
pub mod FirstFault
pub mod Ready
