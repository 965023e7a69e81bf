-- The laws of entries, for the proofs of this crate and of those above it, which reach them as Rattle.obj_entries.proofs.NAME.
-- No contract cites them. Assumes nothing.
--
-- Entries: cells and words. Shapes: well-shaped entries.
pub mod Entries
pub mod Shapes
