-- The laws of the step of reference numbers, for the proofs of this crate and of those above it, which reach them as
-- Rattle.gpu_step.proofs.NAME. No contract cites them. Assumes nothing.
pub mod Missing
pub mod Machine
pub mod Added
pub mod Answers
