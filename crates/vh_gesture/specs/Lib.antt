pub mod Rules
pub mod Scripts
pub mod Tables
pub mod Gestures
pub mod Laws
