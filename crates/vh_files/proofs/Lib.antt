pub mod ShelfLemmas
pub mod Loops
pub mod Untold
pub mod Chains
