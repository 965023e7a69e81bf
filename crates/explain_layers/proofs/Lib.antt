-- Laws of one column's layers, for the proofs of this crate. No contract cites them. Assumes nothing.
pub mod Columns
