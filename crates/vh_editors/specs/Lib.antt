pub mod Scripts
pub mod Journals
pub mod Values
pub mod Editing
pub mod Gathered
pub mod Seats
pub mod Laws
