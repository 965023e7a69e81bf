-- The laws of the pass, for the proofs of this crate and of those above it, which reach them as Rattle.obj.proofs.NAME. No
-- contract cites them. Assumes nothing.
--
-- Pixels answers one sprite's code, and Skip and Steps the pass; Marks and Shapes are of entries.
-- Before, Order and Windows are the order of pixels.
-- A law's name is as in `obj_sprites`; besides, -passed and -taken: of a pixel that loses, and of one that wins; -read: of what
-- was read; -closed and -open: of columns that are left out, and of those that are put.
pub mod Before
pub mod Marks
pub mod Order
pub mod Pixels
pub mod Shapes
pub mod Skip
pub mod Steps
pub mod Windows
