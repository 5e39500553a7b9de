pub mod Reads
pub mod Arms
