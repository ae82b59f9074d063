pub mod Tokens
pub mod Chains
pub mod Numbers
pub mod Lines
pub mod Left
pub mod Written
pub mod Laws
