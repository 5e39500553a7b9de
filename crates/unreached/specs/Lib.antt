pub mod Steps
pub mod Stops
