pub mod Hands
pub mod Parts
pub mod Following
