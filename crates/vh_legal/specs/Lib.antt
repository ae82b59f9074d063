pub mod Blocks
pub mod Legal
pub mod Values
pub mod Touches
pub mod Journals
pub mod Laws
