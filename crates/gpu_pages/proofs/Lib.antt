-- Laws of offsets, for the proofs of this crate and of those above it. No contract cites them. Assumes nothing.
pub mod Offsets
