pub mod Gates
pub mod Judged
pub mod Marks
pub mod Tracks
