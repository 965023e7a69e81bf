-- The laws of one column, for the proofs of this crate. No contract cites them. Assumes nothing.
--
-- A law's name is as in `obj`.
pub mod Columns
