pub mod Operands
pub mod Valuations
pub mod Ranks
pub mod Levels
pub mod Commutes
