pub mod Same
pub mod Doubled
pub mod Search
pub mod Example
pub mod Comparing
