-- Lemmas behind the laws.
pub mod JobLaws
pub mod Heads
pub mod AnswerLaws
pub mod Wholes
