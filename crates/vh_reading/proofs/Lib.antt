pub mod Readings
mod Files
