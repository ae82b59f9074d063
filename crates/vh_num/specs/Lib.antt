pub mod Values
pub mod Samples
pub mod Frames
pub mod Laws
