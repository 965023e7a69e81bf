-- Laws of tests. Assumes nothing.
pub mod Booleans
