pub mod CellCache
pub mod Exchanged
