-- What a column's object entry is worked out from. Assumes nothing.
pub mod Code
