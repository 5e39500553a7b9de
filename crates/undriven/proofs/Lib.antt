pub mod Undriven
