pub mod Evaluate
pub mod Fold
