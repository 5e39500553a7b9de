pub mod Merge
pub mod inner
