pub mod Starred
pub mod Corners
pub mod Levels
pub mod Refused
pub mod Wrong
