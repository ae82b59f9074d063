pub mod Steps
pub mod Objects
pub mod Held
pub mod Answers
pub mod Laws
