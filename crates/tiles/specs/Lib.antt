-- What the rows of a tile are. Assumes nothing.
pub mod Flip
pub mod Code
