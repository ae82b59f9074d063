pub mod Lists
pub mod Rule
pub mod Facts
pub mod Values
pub mod AtDesks
pub mod AtDrains
