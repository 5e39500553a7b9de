pub mod Stages
pub mod Pairing
pub mod Results
pub mod Plain
pub mod Calls
pub mod Examples
pub mod Unpaired
