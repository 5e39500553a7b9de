pub mod Sequence
pub mod Merging
