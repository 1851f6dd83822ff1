pub mod Ends
pub mod FormulateEnds
pub mod MakeEnds
pub mod TrialEnds
