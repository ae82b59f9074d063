pub mod Wires
pub mod Switches
pub mod Modes
pub mod Rows
