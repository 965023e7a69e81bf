-- The laws of regions, for the proofs of this crate and of those above it, which reach them as Rattle.sfx_regions.proofs.NAME.
-- No contract cites them. Assumes nothing.
--
-- Regions is of the row that callers see; Spans and Walks answer the code's walk.
-- A law's name is what is read, what was done, and the case, by the suffixes of `rows`; besides, -is: of what calls gave,
-- -some: of a window that claims columns, -each: of each region.
pub mod Regions
pub mod Spans
pub mod Walks
