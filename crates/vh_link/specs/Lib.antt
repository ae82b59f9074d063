pub mod Outputs
pub mod Buffers
pub mod Link
pub mod Laws
