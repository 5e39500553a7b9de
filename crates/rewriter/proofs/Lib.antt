pub mod Items
pub mod Applying
pub mod Runs
