pub mod Normal
pub mod Applies
pub mod Rules
pub mod Alike
pub mod Pairs
pub mod Inverse
pub mod Pairings
