pub mod Pairing
pub mod Repeat
