-- Laws of layers, for the proofs of this crate and of those above it, which reach them as Rattle.sfx_layers.proofs.NAME.
-- No contract cites them. Assumes nothing.
--
-- Tags: what can be read from tags and words. Columns: they are those of layers and regions. Marks: which tags have
-- no mark of a semi-transparent object. Places: the layers of the places are the backgrounds in their order.
pub mod Columns
pub mod Marks
pub mod Places
pub mod Tags
