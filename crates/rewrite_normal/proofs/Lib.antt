pub mod Cells
pub mod Fresh
pub mod Adding
pub mod Run
pub mod Left
pub mod Compacted
pub mod Result
