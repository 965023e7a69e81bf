-- The rows of sprites' colours and the points of affine ones, as code has them. Assumes nothing.
pub mod Code
