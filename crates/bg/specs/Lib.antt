-- What the backgrounds show. Assumes nothing.
pub mod Affine
pub mod Bitmap
pub mod Background
pub mod Code
