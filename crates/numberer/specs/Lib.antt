pub mod Numberer
pub mod inner
