pub mod Carried
pub mod Parameters
pub mod Playing
pub mod Staged
