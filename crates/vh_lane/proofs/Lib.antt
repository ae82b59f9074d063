mod Segments
mod Bounds
mod Sending
mod Lawful
mod Meaning
mod Slopes
