pub mod Fold
pub mod Levels
