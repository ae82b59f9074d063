pub mod Positions
pub mod Literals
