pub mod Items
pub mod Ends
pub mod Inner
pub mod Follows
pub mod Changes
pub mod Laws
