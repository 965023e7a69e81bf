-- The laws of a tile's rows, for the proofs of this crate and of those above it, which reach them as Rattle.tiles.proofs.NAME.
-- No contract cites them. Assumes nothing.
pub mod Rows
pub mod Empty
