-- Lemmas on the plan of a point.
pub mod CommonDivisors
pub mod Multiples
pub mod Parts
pub mod FlowBases
pub mod PropPlans
pub mod QualPlans
pub mod Outcomes
