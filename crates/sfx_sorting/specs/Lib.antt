-- In which order backgrounds stand. Assumes nothing.
pub mod Ordered
pub mod Code
