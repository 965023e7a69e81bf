-- Laws of the order of backgrounds, for the proofs of this crate and of those above it, which reach them as
-- Rattle.sfx_sorting.proofs.Sorting. No contract cites them. Assumes nothing.
pub mod Sorting
