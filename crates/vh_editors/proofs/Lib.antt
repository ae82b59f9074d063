pub mod Steps
pub mod Through
pub mod Seating
pub mod Gathering
pub mod Made
pub mod Fronts
pub mod On
