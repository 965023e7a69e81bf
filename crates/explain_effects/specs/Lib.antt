-- The number of an effect, and its weights. Assumes nothing.
pub mod Weights
pub mod Code
