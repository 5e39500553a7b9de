pub mod Outcomes
pub mod Normalize
