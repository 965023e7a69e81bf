-- The two layers of one column, as code names them. Assumes nothing.
pub mod Code
