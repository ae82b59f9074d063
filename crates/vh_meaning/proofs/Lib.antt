pub mod Later
pub mod Reaching
pub mod Fitting
pub mod Traces
pub mod Touches
pub mod Applying
pub mod Lanes
pub mod Wires
mod Examples
pub mod Blocks
pub mod Answering
