pub mod Early
pub mod Room
