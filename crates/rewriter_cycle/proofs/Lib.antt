pub mod Arms
pub mod Passes
