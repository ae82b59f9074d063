pub mod Queueing
pub mod Reading
