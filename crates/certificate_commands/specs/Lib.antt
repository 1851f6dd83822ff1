pub mod CheckEnds
pub mod OpenedEnds
pub mod ReportEnds
