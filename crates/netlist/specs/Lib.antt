pub mod Shape
pub mod Netlist
pub mod inner
