pub mod Frames
pub mod Areas
pub mod Operands
pub mod Cells
pub mod Heads
pub mod Sources
