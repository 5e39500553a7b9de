pub mod Algebra
pub mod Instances
