pub mod Stamps
pub mod State
