mod Copies
mod Stretches
mod Frames
mod Played
mod Streams
mod Values
