pub mod Compact
pub mod inner
