pub mod Groups
pub mod Records
pub mod Netlist
