pub mod Bands
pub mod Heard
pub mod Runs
pub mod Closing
