-- Laws of a composed line, for the proofs of this crate and of those above it, which reach them as Rattle.sfx.proofs.NAME.
-- No contract cites them. Assumes nothing.
--
-- Columns: a column's halfwords make its pixel. Tops: where no layers are blended, the top alone gives the colour.
pub mod Columns
pub mod Tops
