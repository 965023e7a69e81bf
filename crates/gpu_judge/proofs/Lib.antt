-- The laws of a draw's verdict, for the proofs of this crate and of those above it, which reach them as
-- Rattle.gpu_judge.proofs.NAME. No contract cites them. Assumes nothing.
pub mod Lengths
pub mod Verdicts
