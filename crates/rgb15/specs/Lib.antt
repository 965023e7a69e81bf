-- What colours are. Assumes nothing.
pub mod Colour
