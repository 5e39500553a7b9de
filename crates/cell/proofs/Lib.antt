pub mod Laws
pub mod Operands
pub mod Lists
pub mod RoundTrips
pub mod Sorts
