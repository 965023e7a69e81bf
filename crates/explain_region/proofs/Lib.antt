-- Laws of one column's region, for the proofs of this crate. No contract cites them. Assumes nothing.
pub mod Regions
