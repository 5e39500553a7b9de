pub mod Lowest
pub mod Cells
pub mod Starts
