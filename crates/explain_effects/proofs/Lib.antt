-- Laws of one column's effect, for the proofs of this crate and of those above it, which reach them as
-- Rattle.explain_effects.proofs.NAME. No contract cites them. Assumes nothing.
--
-- Named: the effect as code finds it. Weighed: the colour of an effect by its weights.
pub mod Named
pub mod Weighed
