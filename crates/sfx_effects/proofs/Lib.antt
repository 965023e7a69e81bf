-- Laws of effects, for the proofs of this crate and of those above it, which reach them as Rattle.sfx_effects.proofs.NAME.
-- No contract cites them. Assumes nothing.
--
-- Colors: the colour of two layers is that of their effect. Bounds: those of weights.
pub mod Colors
pub mod Bounds
