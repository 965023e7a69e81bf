-- What the two layers of a column are. Assumes nothing.
pub mod Layers
pub mod Code
