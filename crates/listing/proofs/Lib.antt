pub mod Listing
pub mod Printed
