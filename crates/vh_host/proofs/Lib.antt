mod Bands
pub mod Calls
pub mod Decided
mod Entries
mod Gathering
mod Hearing
pub mod Opened
pub mod Outcomes
mod Playing
mod Readings
mod Ready
mod Rendered
pub mod Replies
mod Saved
pub mod Sized
mod Sizes
mod Split
mod Sums
mod Wires
