pub mod Plan
pub mod Presets
pub mod Firsts
pub mod Raised
pub mod Seats
pub mod Band
pub mod Laws
pub mod Saved
