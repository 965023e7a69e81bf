-- What the lent memory means. Assumes nothing.
pub mod Sizes
pub mod Memory
pub mod Lent
pub mod Palette
pub mod Tiles
