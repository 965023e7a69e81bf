-- What regular backgrounds show, and what a line is drawn from. Assumes nothing.
pub mod Regular
pub mod Code
