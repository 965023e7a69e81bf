-- The laws of points, for the proofs of this crate and of those above it, which reach them as Rattle.bg_points.proofs.NAME.
-- No contract cites them. Assumes nothing.
pub mod Points
pub mod Ranges
