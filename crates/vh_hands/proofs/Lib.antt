pub mod Places
pub mod Holds
pub mod Cuts
pub mod Handing
pub mod Counting
pub mod Gathering
pub mod Values
