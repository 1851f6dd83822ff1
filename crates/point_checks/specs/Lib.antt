pub mod Sizes
pub mod Flows
pub mod Qualities
pub mod PropSlices
pub mod ProportionTests
pub mod QualSlices
pub mod QualityTests
