-- How layers and effects make a pixel. Assumes nothing.
pub mod Pixel
pub mod Code
