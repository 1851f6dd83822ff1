-- Lemmas on printed programs.
pub mod Lists
pub mod VariableKinds
pub mod Scaling
pub mod Terms
pub mod Groups
pub mod Ends
pub mod Parts
pub mod Maxima
pub mod PointsOfP
pub mod PointsOfQ
pub mod FlowEnds
pub mod LinesOfP
pub mod LinesOfQ
pub mod Texts
pub mod ReadBack
pub mod ShortLines
pub mod Whole
