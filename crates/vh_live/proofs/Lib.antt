pub mod Accounts
pub mod Banded
pub mod Between
pub mod Calls
pub mod Closed
pub mod Heard
pub mod Sizes
pub mod Wires
