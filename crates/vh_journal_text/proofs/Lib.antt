mod Inverts
mod Named
mod Several
pub mod Tracked
pub mod Accepted
mod Names
mod Sizes
mod ReadsBack
mod Stepped
mod Whole
mod Faulty
