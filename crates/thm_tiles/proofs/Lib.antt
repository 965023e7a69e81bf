-- What ignoring the lowest bit of a tile number changes, proved. Assumes nothing.
pub mod TileNumbers
