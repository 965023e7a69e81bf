-- The proof of demand 1, and the laws that it is made of. No contract cites them. Assumes nothing.
--
-- Demand1 has the proof. Tables: the laws of tables whose numbers rise. The others: each routine gives what its table gives,
-- and a refusal leaves what was lent. Draws: the draw over bytes. Records: over records. Steps: the row reset and the steps.
-- Explains: the explanation. Bus: reads and stores.
pub mod Bus
pub mod Demand1
pub mod Draws
pub mod Explains
pub mod Records
pub mod Steps
pub mod Tables
