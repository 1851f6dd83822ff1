pub mod FamiliesOfP
pub mod FamiliesOfPq
pub mod FamiliesOfQ
pub mod ProportionEnvelopes
pub mod QualityEnvelopes
pub mod InParts
