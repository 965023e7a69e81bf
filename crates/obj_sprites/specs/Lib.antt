-- What sprites and their pixels are. Assumes nothing.
pub mod Oam
pub mod Size
pub mod Fields
pub mod Inside
pub mod Attrs
pub mod Place
pub mod Tiles
pub mod Color
pub mod Sprite
pub mod Code
