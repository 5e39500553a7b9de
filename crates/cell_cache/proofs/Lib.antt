pub mod Plain
pub mod Life
pub mod Covered
pub mod Same
pub mod Examples
