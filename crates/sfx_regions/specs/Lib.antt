-- What regions are. Assumes nothing.
pub mod Region
pub mod Code
