pub mod Cells
pub mod Slots
pub mod Levels
pub mod Given
