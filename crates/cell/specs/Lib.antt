pub mod Bytes
pub mod Limits
pub mod Operands
pub mod Records
