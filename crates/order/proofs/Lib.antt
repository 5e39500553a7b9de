pub mod Fields
pub mod Walks
pub mod Words
pub mod Walking
pub mod Bits
