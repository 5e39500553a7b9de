pub mod Records
pub mod Seeking
pub mod Mixing
pub mod Inserting
