pub mod Outside
pub mod Told
pub mod Refusals
pub mod Report
pub mod Steps
pub mod Each
pub mod Listing
