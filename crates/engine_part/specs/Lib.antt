pub mod Carried
pub mod Playing
pub mod Whole
