mod Lengths
mod EndToEnd
