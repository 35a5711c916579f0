pub mod Nexts
pub mod Wires
