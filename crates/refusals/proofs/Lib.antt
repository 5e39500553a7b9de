pub mod Stages
pub mod Fields
