mod Parts
mod Tokenized
mod Places
pub mod Spans
pub mod Split
pub mod Joined
pub mod Lengths
pub mod Numerals
pub mod Written
pub mod WordsOf
pub mod Gives
mod Runs
mod ReadBack
