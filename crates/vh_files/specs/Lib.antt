pub mod Causes
pub mod Store
pub mod Due
pub mod Fields
pub mod MemFiles
pub mod Shelf
pub mod SureFiles
pub mod Disk
