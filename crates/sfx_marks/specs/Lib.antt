-- What the marks of columns are, as code has them. Assumes nothing.
pub mod Code
