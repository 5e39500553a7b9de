pub mod Ordered
pub mod Members
pub mod Ends
