pub mod Buses
pub mod Layouts
pub mod States
