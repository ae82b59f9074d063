mod Classes
pub mod First
pub mod Faults
pub mod Written
pub mod ReadBack
pub mod Ids
pub mod Presets
