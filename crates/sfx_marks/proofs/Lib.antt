-- The laws of marks in words and of rows that they choose, for the proofs of this crate and of those above it, which reach them
-- as Rattle.sfx_marks.proofs.NAME. No contract cites them. Assumes nothing.
--
-- A law's name is what is read, what was done, and the case, by the suffixes of `rows`.
pub mod Bits
pub mod Marked
pub mod Paints
