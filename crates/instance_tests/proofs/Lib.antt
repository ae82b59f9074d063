mod Names
mod Fronts
