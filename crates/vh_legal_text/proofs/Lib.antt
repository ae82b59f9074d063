pub mod Scripted
pub mod Opened
pub mod Ruled
pub mod Named
