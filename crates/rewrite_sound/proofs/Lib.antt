pub mod Shaped
pub mod Operands
pub mod Ports
pub mod Applied
pub mod Result
pub mod Encoded
pub mod Calls
