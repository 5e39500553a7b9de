pub mod Litter
