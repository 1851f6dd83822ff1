pub mod Starting
pub mod Nearness
pub mod Opening
pub mod Ordering
pub mod Rooted
pub mod LeafSplits
pub mod RootCut
pub mod Repaired
