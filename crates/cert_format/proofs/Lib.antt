pub mod LineLaws
pub mod CertLaws
pub mod Outcomes
