pub mod Work
pub mod Deciding
pub mod Delivering
pub mod Shell
