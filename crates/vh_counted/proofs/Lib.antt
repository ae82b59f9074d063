pub mod References
pub mod Beyond
pub mod Sums
