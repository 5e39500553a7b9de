pub mod Aig
pub mod inner
