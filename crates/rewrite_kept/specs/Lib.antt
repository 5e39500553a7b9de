pub mod Outcomes
pub mod Definite
