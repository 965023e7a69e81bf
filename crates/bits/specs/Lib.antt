-- What bit fields are. Assumes nothing.
pub mod Bits
