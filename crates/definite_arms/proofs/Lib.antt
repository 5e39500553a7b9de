pub mod Table
pub mod Cases
pub mod Exact
pub mod Everywhere
