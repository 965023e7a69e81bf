-- What ignoring the lowest bit of a tile number changes. Assumes nothing.
pub mod TileNumbers
