-- The proof of demand 3, and the laws that it is made of. No contract cites them. Assumes nothing.
--
-- Demand3 has the proof, and Prefixes that of draws after draws. Rows: what draws make
-- of a row. Columns: what draws make of the entry of a column.
pub mod Columns
pub mod Demand3
pub mod Prefixes
pub mod Rows
