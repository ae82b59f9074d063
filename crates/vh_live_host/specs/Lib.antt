pub mod Words
pub mod Played
pub mod Commands
pub mod Named
pub mod Waves
pub mod Results
pub mod Headline
