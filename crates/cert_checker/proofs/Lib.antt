-- Lemmas behind the checker.
pub mod Within
pub mod Taking
pub mod Order
pub mod Room
pub mod Followed
pub mod Fields
pub mod Openings
pub mod Fronts
pub mod Planning
pub mod Claiming
pub mod Cutting
pub mod Streaming
pub mod Walking
pub mod Answering
pub mod Texts
