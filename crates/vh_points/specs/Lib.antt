pub mod Queues
pub mod Stored
pub mod Model
pub mod Values
pub mod Laws
