mod Alike
mod Begun
mod Behind
mod Called
mod Elsewhere
mod Ending
mod Flushed
mod Gone
mod Here
mod Laned
mod Left
mod Mixing
mod Ordered
mod Output
mod Placed
mod Planned
mod Queueing
mod Reached
mod Remade
mod Rows
mod Running
mod Seated
mod Seeing
mod Sending
mod Settled
mod Shown
mod Started
mod Taken
mod Takes
mod Telling
mod Traces
mod Turns
mod Upto
mod Wired
pub mod Boards
pub mod Carried
pub mod Firsts
pub mod Heads
pub mod Rooms
pub mod Splits
pub mod Taking
