-- The laws of the draw over records. No contract cites them. Assumes nothing.
--
-- Draws: what it gives, by what the code finds, and that nothing else satisfies its contract.
pub mod Draws
