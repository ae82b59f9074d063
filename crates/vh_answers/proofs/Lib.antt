mod Told
mod Reports
pub mod Stages
pub mod Each
