pub mod Paths
pub mod Order
pub mod Laws
pub mod Steps
pub mod Model
