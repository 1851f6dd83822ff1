-- Lemmas on the lines of a report.
pub mod Same
pub mod MeanRounding
