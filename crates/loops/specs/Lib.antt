pub mod Reach
pub mod inner
