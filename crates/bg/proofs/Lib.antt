-- The laws of backgrounds. Assumes nothing.
pub mod Pixels
pub mod Modes
