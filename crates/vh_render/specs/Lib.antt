pub mod Sounds
pub mod Playing
