-- What effects make of two layers. Assumes nothing.
pub mod Effects
pub mod Code
