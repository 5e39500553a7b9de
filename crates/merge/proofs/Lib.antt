pub mod Keys
pub mod Room
pub mod Cells
pub mod Numbering
pub mod Merging
pub mod Examples
