pub mod Reached
pub mod Whole
pub mod Keys
pub mod Single
pub mod Merged
