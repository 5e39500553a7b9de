pub mod Strings
pub mod Arms
pub mod Reading
