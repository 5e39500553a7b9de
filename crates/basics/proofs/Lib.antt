pub mod Truth
pub mod Tables
pub mod Those
pub mod Indices
pub mod Members
