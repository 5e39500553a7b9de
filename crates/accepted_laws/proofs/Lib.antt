pub mod Accepted
pub mod Final
pub mod Ends
