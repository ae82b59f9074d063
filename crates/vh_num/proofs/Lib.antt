pub mod Lanes
pub mod Lawful
pub mod Division
pub mod InPlace
