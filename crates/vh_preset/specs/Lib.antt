pub mod Form
pub mod Contents
pub mod Seen
pub mod Chunks
pub mod Parts
pub mod Text
pub mod Numbers
pub mod Laws
