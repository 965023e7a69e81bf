-- The laws of a sprite's texels, for the proofs of this crate and of those above it, which reach them as
-- Rattle.obj_texels.proofs.NAME. No contract cites them. Assumes nothing.
--
-- Texels: the row of a normal sprite, tile by tile, and of an affine one's box, point by point. Turns: those points. Colors:
-- what pixels and points are at a column of the screen.
-- A law's name is as in `obj_sprites`.
pub mod Colors
pub mod Texels
pub mod Turns
