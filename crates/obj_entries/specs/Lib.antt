-- What the entries of a row are, and what a row reset gives. Assumes nothing.
pub mod Entry
pub mod Reset
pub mod Code
