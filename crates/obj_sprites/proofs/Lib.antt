-- The laws of sprites, for the proofs of this crate and of those above it, which reach them as Rattle.obj_sprites.proofs.NAME.
-- No contract cites them. Assumes nothing.
--
-- Decode, Places, Points and Drawn answer one sprite's code; Clean is of the colours of all, and Booleans of choices.
-- A law's name is what is read, what was done, and the case, by the suffixes of `rows`; besides, -is: of what calls found,
-- -above: from a bias on.
pub mod Clean
pub mod Decode
pub mod Drawn
pub mod Places
pub mod Points
