pub mod Between
pub mod Calls
pub mod Cuts
mod Pieces
mod Renders
pub mod Texts
pub mod Turns
pub mod Ways
