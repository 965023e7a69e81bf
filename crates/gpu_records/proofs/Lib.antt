-- The laws of the step on records and of rows of them. No contract cites them. Assumes nothing.
--
-- Steps: what the step gives, by what the code finds, and that nothing else satisfies its contract. Rows: the bytes of a row
-- of records.
pub mod Rows
pub mod Steps
