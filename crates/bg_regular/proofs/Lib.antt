-- The laws of regular backgrounds. Assumes nothing.
pub mod Maps
