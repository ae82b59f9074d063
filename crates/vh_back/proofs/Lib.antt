pub mod Sameness
pub mod Puts
pub mod Few
pub mod Keeping
pub mod Following
pub mod Offering
pub mod Telling
