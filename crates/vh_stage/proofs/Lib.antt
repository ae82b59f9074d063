mod Calls
mod Carrying
pub mod Ends
mod Params
mod Parted
pub mod Played
mod Stages
mod Told
mod Turns
mod UnderWay
