mod WireSets
mod Counting
mod Rows
