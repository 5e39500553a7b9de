pub mod Failures
pub mod Printed
pub mod Taken
