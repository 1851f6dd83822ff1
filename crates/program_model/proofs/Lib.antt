-- Lemmas behind the laws.
pub mod Means
pub mod Scaled
pub mod LiftedFlows
pub mod FormP
pub mod FormQ
pub mod LiftedPlaces
pub mod SameFlows
pub mod PathRows
pub mod MixedRows
pub mod ExactRows
pub mod LimitLists
pub mod RowsBack
pub mod PlanFlows
pub mod Least
pub mod Bounds
